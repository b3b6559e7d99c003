use Rattle.std.proofs.Common.{◌≡◌, ℕ, ◌<◌, length, get_or, ap, ◌∙◌, arith}
use Rattle.stores.specs.Places.{contents}
use Rattle.stores.specs.Shifting.{shifting_size, shifting_state}
use Rattle.stores.proofs.Moving.{fresh_pages}
use Rattle.stores.proofs.shifting.ShiftingStore.new.Goals as goal

pub returns : goal.returns
returns c =
    let area = c.args.area.now in
    let t = c.new-table.result in
    let is : t.size ≡ shifting_size (length area) = c.new-table.ensures.size ∙ c.pages_in.ensures in
    let own : (p : ℕ) → p < t.size → get_or t.places p 0 ≡ p =
    λ p h. c.new-table.ensures.places p (omega (arith, c.new-table.ensures.size)) in
    ap (λ bytes. shifting_state bytes t.places t.size c.new.result.count) c.new.ensures.bytes
    ∙ ap (λ n. shifting_state area t.places t.size n) c.new.ensures.count
    ∙ ap (λ ps. record { pages = ps; count = 0 })
    (fresh_pages area t.places t.size is own ∙ ap (λ n. contents n area) is)
