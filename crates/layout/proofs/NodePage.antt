-- One node page: the slots of the children and the s-keys have fixed widths, so page and node determine each other, and
-- the tests of s-keys say what the tree asks of them.
use Rattle.std.proofs.Common.{◌≡◌, ℕ, zero, suc, ◌+◌, ◌-◌, ◌*◌, ◌<◌, ◌≤◌, true, List, [], ◌∷◌, ◌++◌, length, get_or, take, drop, replicate, sym, refl, ap, ◌∙◌, append_assoc, suc-mul, zero-mul, arith, take-add}
use Rattle.std.specs.List.{flat_map, AllByRecursion}
use Rattle.std.proofs.ByRecursion.{All-take, All-drop, All-weaker}
use Rattle.std.proofs.lemmas.Bool.{and_parts, and_from}
use Rattle.std.proofs.lemmas.List.{length-take-le, length-drop, length-append, take_at, drop_at, drop-drop, append-nil}
use Rattle.records.specs.Bytes.{word, bytes_of}
use Rattle.records.specs.Kind.{Kind, Lawful}
use Rattle.records.specs.BytesLemmas.{length-bytes_of, word_bytes_of, bytes_of_word}
use Rattle.tree.specs.Entries.{Low, past, High}
use Rattle.tree.specs.Children.{Children, one, more, count, SKeysAscend}
use Rattle.layout.specs.Pages.{padded, node_page}
use Rattle.layout.specs.Checked.{zeros}
use Rattle.layout.specs.Slots.{child_list, s_key_list}
use Rattle.layout.specs.Holds.{ValidKey}
use Rattle.layout.specs.LeafPages.{ordered_below, good_key}
use Rattle.layout.specs.Nodes.{SlotChildren, children_from, child_count_on, entry_count_on, children_on, good_s_keys}
use Rattle.layout.proofs.Checked.{page_is, padded_rest}
use Rattle.layout.proofs.LeafPage.{key_is, key_from}

abbrev slot_bytes : SlotChildren → List ℕ
slot_bytes cs = flat_map (bytes_of 2) (child_list cs)

abbrev key_bytes : SlotChildren → List ℕ
key_bytes cs = flat_map (λ key. key) (s_key_list cs)

pub length-children : {K X : Type 0} (cs : Children K X) → length (child_list cs) ≡ count cs
length-children (one x) = refl
length-children (more x sk cs) = ap suc (length-children cs)

pub some_children : {K X : Type 0} (cs : Children K X) → 1 ≤ count cs
some_children (one x) = omega arith
some_children (more x sk cs) = omega (arith, some_children cs)

count_from : (w n : ℕ) (slots keys : List ℕ) → count (children_from w n slots keys) ≡ suc n
unfolding children_from
count_from w zero slots keys = refl
count_from w (suc n) slots keys = ap suc (count_from w n (drop 2 slots) (drop w keys))

-- from bytes to children, and back to the same bytes

slot_back :
    (slots : List ℕ) → 2 ≤ length slots → AllByRecursion (λ b. b < 256) slots
    → bytes_of 2 (word (take 2 slots)) ≡ take 2 slots
slot_back slots l b = bytes_of_word 2 (take 2 slots) (length-take-le 2 slots l) (All-take (λ b. b < 256) 2 slots b)

slots_back :
    (w n : ℕ) (slots keys : List ℕ) → 2 * suc n ≤ length slots → AllByRecursion (λ b. b < 256) slots
    → slot_bytes (children_from w n slots keys) ≡ take (2 * suc n) slots
unfolding children_from
slots_back w zero slots keys l b = append-nil (bytes_of 2 (word (take 2 slots))) ∙ slot_back slots (omega arith) b
slots_back w (suc n) slots keys l b =
    let e : 2 * suc (suc n) ≡ 2 + 2 * suc n = omega arith in
    let rest = drop 2 slots in
    let x = slot_back slots (omega arith) b in
    let y =
    slots_back w n rest (drop w keys) (omega (arith, length-drop 2 slots)) (All-drop (λ b. b < 256) 2 slots b) in
    rw (e, take-add 2 (2 * suc n) slots) (
    ap (λ r. r ++ slot_bytes (children_from w n rest (drop w keys))) x ∙ ap (λ r. take 2 slots ++ r) y)

keys_back : (w n : ℕ) (slots keys : List ℕ) → key_bytes (children_from w n slots keys) ≡ take (n * w) keys
unfolding children_from
keys_back w zero slots keys = rw zero-mul
keys_back w (suc n) slots keys =
    let e : suc n * w ≡ w + n * w = omega (arith, suc-mul n w) in
    rw (e, take-add w (n * w) keys) (ap (λ r. take w keys ++ r) (keys_back w n (drop 2 slots) (drop w keys)))

-- from children to bytes, and back to the same children

abbrev pub TwoBytes : SlotChildren → Type 0
TwoBytes cs = AllByRecursion (λ x. x < 65536) (child_list cs)

abbrev pub KeysLong : ℕ → SlotChildren → Type 0
KeysLong w cs = AllByRecursion (λ key. length key ≡ w) (s_key_list cs)

children_of_lem :
    (w n : ℕ) (cs : SlotChildren) (a b : List ℕ) → count cs ≡ suc n → TwoBytes cs → KeysLong w cs
    → children_from w n (slot_bytes cs ++ a) (key_bytes cs ++ b) ≡ cs
unfolding children_from
children_of_lem w zero (one x) a b c s l =
    ap one (
    ap (λ y. word (take 2 (y ++ a))) (append-nil (bytes_of 2 x))
    ∙ ap word (take_at (bytes_of 2 x) a 2 (length-bytes_of 2 x)) ∙ word_bytes_of 2 x s.0)
children_of_lem w (suc n) (one x) a b c s l = absurd (omega arith)
children_of_lem w zero (more x sk cs) a b c s l = absurd (omega (arith, some_children cs))
children_of_lem w (suc n) (more x sk cs) a b c s l =
    let slots = bytes_of 2 x ++ slot_bytes cs in
    let keys = sk ++ key_bytes cs in
    let e = append_assoc (bytes_of 2 x) (slot_bytes cs) a in
    let g = append_assoc sk (key_bytes cs) b in
    let ls = length-bytes_of 2 x in
    let x1 : word (take 2 (slots ++ a)) ≡ x =
    ap (λ y. word (take 2 y)) e ∙ ap word (take_at (bytes_of 2 x) (slot_bytes cs ++ a) 2 ls) ∙ word_bytes_of 2 x s.0 in
    let x2 : drop 2 (slots ++ a) ≡ slot_bytes cs ++ a =
    ap (drop 2) e ∙ drop_at (bytes_of 2 x) (slot_bytes cs ++ a) 2 ls in
    let q1 : take w (keys ++ b) ≡ sk = ap (take w) g ∙ take_at sk (key_bytes cs ++ b) w l.0 in
    let q2 : drop w (keys ++ b) ≡ key_bytes cs ++ b = ap (drop w) g ∙ drop_at sk (key_bytes cs ++ b) w l.0 in
    let ih = children_of_lem w n cs a b (omega arith) s.1 l.1 in
    rw (x1, x2, q1, q2) (ap (more x sk) ih)

length-slots : (cs : SlotChildren) → length (slot_bytes cs) ≡ 2 * count cs
length-slots (one x) = ap length (append-nil (bytes_of 2 x)) ∙ length-bytes_of 2 x
length-slots (more x sk cs) =
    omega (arith, length-append (bytes_of 2 x) (slot_bytes cs), length-bytes_of 2 x, length-slots cs)

length-keys : (w : ℕ) (cs : SlotChildren) → KeysLong w cs → length (key_bytes cs) ≡ (count cs - 1) * w
length-keys w (one x) h = sym (zero-mul w)
length-keys w (more x sk cs) h = go (count cs) (some_children cs) (length-keys w cs h.1)
  where
    go : (c : ℕ) → 1 ≤ c → length (key_bytes cs) ≡ (c - 1) * w → length (sk ++ key_bytes cs) ≡ (suc c - 1) * w
    go zero l e = absurd (omega arith)
    go (suc c) l e =
        let a : suc c - 1 ≡ c = omega arith in
        let b : suc (suc c) - 1 ≡ suc c = omega arith in
        let e' : length (key_bytes cs) ≡ c * w = rw a at e in
        rw b (omega (arith, length-append sk (key_bytes cs), h.0, suc-mul c w))

-- the tests of s-keys

module _ (kind : Kind) where
  pub s_keys_are :
      (lo : Low (List ℕ)) (hi : High (List ℕ)) (cs : SlotChildren) → good_s_keys kind lo hi cs ≡ true
      → AllByRecursion (ValidKey kind) (s_key_list cs) × SKeysAscend (ordered_below kind) lo hi cs
  unfolding good_s_keys
  s_keys_are lo hi (one x) h = (tt, tt)
  s_keys_are lo hi (more x sk cs) h =
      let a = and_parts (good_key kind lo hi sk) (good_s_keys kind (past sk) hi cs) h in
      let k = key_is kind lo hi sk a.0 in
      let ih = s_keys_are (past sk) hi cs a.1 in
      ((k.valid, ih.0), (k.above, k.below, ih.1))

  pub s_keys_from :
      (lo : Low (List ℕ)) (hi : High (List ℕ)) (cs : SlotChildren) → AllByRecursion (ValidKey kind) (s_key_list cs)
      → SKeysAscend (ordered_below kind) lo hi cs → good_s_keys kind lo hi cs ≡ true
  unfolding good_s_keys
  s_keys_from lo hi (one x) v h = refl
  s_keys_from lo hi (more x sk cs) v h =
      let k = key_from kind lo hi sk (record { valid = v.0; above = h.0; below = h.1 }) in
      and_from _ _ k (s_keys_from (past sk) hi cs v.1 h.2)

  pub s_keys_long :
      Lawful kind → (cs : SlotChildren) → AllByRecursion (ValidKey kind) (s_key_list cs) → KeysLong kind.key_width cs
  s_keys_long law cs =
      All-weaker (ValidKey kind) (λ key. length key ≡ kind.key_width) (λ key v. law.key_long key v) (s_key_list cs)

-- byte 0, the entry count, the slots, the s-keys
front_node :
    (page : List ℕ) (n m c : ℕ) (xs ys zs : List ℕ) → 3 ≤ length page → get_or page 0 0 ≡ c
    → xs ≡ take 2 (drop 1 page) → ys ≡ take n (drop 3 page) → zs ≡ take m (drop (3 + n) page)
    → take (3 + n + m) page ≡ c ∷ (xs ++ (ys ++ zs))
front_node [] n m c xs ys zs l a b d e = absurd (omega arith)
front_node (x ∷ page) n m c xs ys zs l a b d e =
    let q : 3 + n + m ≡ suc (2 + (n + m)) = omega arith in
    let r : 3 + n ≡ suc (2 + n) = omega arith in
    let e' : zs ≡ take m (drop (2 + n) page) = rw r at e in
    rw (q, a, b, d, e', take-add 2 (n + m) page, take-add n m (drop 2 page), drop-drop n 2 page)

module _ (page : List ℕ) (long : length page ≡ 512) (bytes : AllByRecursion (λ b. b < 256) page) where
  entries_back : bytes_of 2 (entry_count_on page) ≡ take 2 (drop 1 page)
  entries_back = slot_back (drop 1 page) (omega (arith, length-drop 1 page)) (All-drop (λ b. b < 256) 1 page bytes)

  -- a page whose rest is zero is the node page of the children on it
  pub inner_page :
      (w : ℕ) → 1 ≤ child_count_on page → 3 + 2 * child_count_on page + (child_count_on page - 1) * w ≤ 512
      → zeros (drop (3 + 2 * child_count_on page + (child_count_on page - 1) * w) page) ≡ true
      → page ≡ node_page (child_list (children_on w page)) (s_key_list (children_on w page)) (entry_count_on page)
  unfolding node_page
  inner_page w some room z =
      let c = child_count_on page in
      let cs = children_on w page in
      let slots = drop 3 page in
      let keys = drop (3 + 2 * c) page in
      let n : suc (c - 1) ≡ c = omega arith in
      let counted : length (child_list cs) ≡ c = length-children cs ∙ count_from w (c - 1) slots keys ∙ n in
      let sl : slot_bytes cs ≡ take (2 * c) slots =
      slots_back w (c - 1) slots keys (omega (arith, length-drop 3 page)) (All-drop (λ b. b < 256) 3 page bytes)
      ∙ ap (λ j. take (2 * j) slots) n in
      let ky = keys_back w (c - 1) slots keys in
      page_is (3 + 2 * c + (c - 1) * w) page long room z
      ∙ ap padded (front_node page (2 * c) ((c - 1) * w) (length (child_list cs)) (bytes_of 2 (entry_count_on page))
      (slot_bytes cs) (key_bytes cs) (omega arith) (sym counted) entries_back sl ky)

  pub leaf_node_page :
      child_count_on page ≡ 0 → zeros (drop 3 page) ≡ true → page ≡ node_page [] [] (entry_count_on page)
  unfolding node_page
  leaf_node_page none z =
      page_is 3 page long (omega arith) z
      ∙ ap padded (front_node page 0 0 0 (bytes_of 2 (entry_count_on page)) [] [] (omega arith) none entries_back refl
      refl)

-- what is read from the page of an inner node
pub record InnerRead (w : ℕ) (cs : SlotChildren) (s : ℕ) (page : List ℕ) : Type 0 where
  pub counted : child_count_on page ≡ count cs
  pub entries : entry_count_on page ≡ s
  pub children : children_on w page ≡ cs
  pub rest : zeros (drop (3 + 2 * child_count_on page + (child_count_on page - 1) * w) page) ≡ true

pub inner_read :
    (w : ℕ) (cs : SlotChildren) (s : ℕ) (page : List ℕ) → TwoBytes cs → KeysLong w cs → s < 65536
    → page ≡ node_page (child_list cs) (s_key_list cs) s → InnerRead w cs s page
unfolding node_page
inner_read w cs s page small wide low e =
    let c = count cs in
    let some = some_children cs in
    let head = bytes_of 2 s in
    let slots = slot_bytes cs in
    let keys = key_bytes cs in
    let front = c ∷ (head ++ (slots ++ keys)) in
    let tail = replicate (512 - length front) 0 in
    let ls = length-bytes_of 2 s in
    let lsl = length-slots cs in
    let lk = length-keys w cs wide in
    let e' : page ≡ padded front = e ∙ ap (λ n. padded (n ∷ (head ++ (slots ++ keys)))) (length-children cs) in
    let a1 : (head ++ (slots ++ keys)) ++ tail ≡ head ++ (slots ++ (keys ++ tail)) =
    append_assoc head (slots ++ keys) tail ∙ ap (λ r. head ++ r) (append_assoc slots keys tail) in
    let shape : page ≡ c ∷ (head ++ (slots ++ (keys ++ tail))) = e' ∙ ap (λ r. c ∷ r) a1 in
    let top : child_count_on page ≡ c = ap (λ x. get_or x 0 0) shape in
    let d3 : drop 3 page ≡ slots ++ (keys ++ tail) = ap (drop 3) shape ∙ drop_at head (slots ++ (keys ++ tail)) 2 ls in
    let d4 : drop (3 + 2 * c) page ≡ keys ++ tail =
    sym (drop-drop (2 * c) 3 page) ∙ ap (drop (2 * c)) d3 ∙ drop_at slots (keys ++ tail) (2 * c) lsl in
    record {
      counted = top;
      entries =
          ap (λ x. word (take 2 (drop 1 x))) shape
          ∙ ap word (take_at head (slots ++ (keys ++ tail)) 2 ls) ∙ word_bytes_of 2 s low;
      children = rw (top, d3, d4) (children_of_lem w (c - 1) cs (keys ++ tail) tail (omega arith) small wide);
      rest =
          rw (top, e') (padded_rest (3 + 2 * c + (c - 1) * w) front
          (omega (arith, length-append head (slots ++ keys), length-append slots keys, ls, lsl, lk)));
    }

-- what is read from the page of a leaf node
pub record LeafRead (s : ℕ) (page : List ℕ) : Type 0 where
  pub counted : child_count_on page ≡ 0
  pub entries : entry_count_on page ≡ s
  pub rest : zeros (drop 3 page) ≡ true

pub leaf_node_read : (s : ℕ) (page : List ℕ) → s < 65536 → page ≡ node_page [] [] s → LeafRead s page
unfolding node_page
leaf_node_read s page low e =
    let ls = length-bytes_of 2 s in
    let e' : page ≡ padded (0 ∷ bytes_of 2 s) = e ∙ ap (λ r. padded (0 ∷ r)) (append-nil (bytes_of 2 s)) in
    record {
      counted = ap (λ x. get_or x 0 0) e';
      entries =
          ap (λ x. word (take 2 (drop 1 x))) e' ∙ ap word (take_at (bytes_of 2 s) _ 2 ls) ∙ word_bytes_of 2 s low;
      rest = rw e' (padded_rest 3 (0 ∷ bytes_of 2 s) (omega (arith, ls)));
    }
