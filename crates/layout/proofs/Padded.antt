-- Writing a page from its start: bytes put right behind what stands there make a longer front, since the rest is zero.
use Rattle.std.proofs.Common.{◌≡◌, ℕ, ◌+◌, ◌-◌, ◌≤◌, List, ◌++◌, length, drop, replicate, sym, ap, ◌∙◌, arith}
use borrow.Rule.Slice.PartMut.{put_mid}
use Rattle.std.proofs.lemmas.List.{take_at, drop_at, append_assoc, length-append, drop-replicate}
use Rattle.layout.specs.Pages.{padded}

pub padded_append :
    (front part : List ℕ) (n k : ℕ) → length front ≡ n → length part ≡ k → n + k ≤ 512
    → put_mid n k (padded front) part ≡ padded (front ++ part)
padded_append front part n k en ek h =
    let zeros = replicate (512 - length front) 0 in
    let m : 512 - length front - k ≡ 512 - length (front ++ part) = omega (arith, length-append front part) in
    ap (λ l. l ++ (part ++ drop k (drop n (front ++ zeros)))) (take_at front zeros n en)
    ∙ ap (λ l. front ++ (part ++ drop k l)) (drop_at front zeros n en)
    ∙ ap (λ l. front ++ (part ++ l)) (drop-replicate k (512 - length front) 0 ∙ ap (λ j. replicate j 0) m)
    ∙ sym (append_assoc front part _)
