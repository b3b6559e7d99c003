-- What a record kind means, and the laws that every kind keeps.
use Rattle.std.specs.Prelude.{◌≡◌, ℕ, ◌+◌, ◌≤◌, Bool, true, List, length}
use Rattle.std.specs.declared.cmp.Ordering.TheVariants.{Less, Equal}
use Rattle.std.specs.declared.cmp.Ordering.{Ordering}
use Rattle.std.specs.Ordering.{ordering_reverse}
use Rattle.records.specs.Bytes.{bytes}

-- its number, the widths of its keys and values in bytes, its tests, and the order of its keys
pub record Kind : Type 0 where
  pub number : ℕ
  pub key_width : ℕ
  pub value_width : ℕ
  pub valid_key : List ℕ → Bool
  pub valid_value : List ℕ → Bool
  pub order : List ℕ → List ℕ → Ordering

-- the bytes of a record: its key, then its value
abbrev pub record_width : Kind → ℕ
record_width k = k.key_width + k.value_width

-- The order answers one of below, same and above on any two lists; only for valid keys is it an order of keys.
pub record Lawful (k : Kind) : Type 0 where
  pub number_least : 1 ≤ k.number
  pub number_most : k.number ≤ 255
  pub key_least : 1 ≤ k.key_width
  pub key_most : k.key_width ≤ 24
  pub value_least : 1 ≤ k.value_width
  pub value_most : k.value_width ≤ 64
  -- a valid key has the key width, in bytes, and a valid value the value width
  pub key_long : (a : List ℕ) → k.valid_key a ≡ true → length a ≡ k.key_width
  pub key_bytes : (a : List ℕ) → k.valid_key a ≡ true → bytes a ≡ true
  pub value_long : (v : List ℕ) → k.valid_value v ≡ true → length v ≡ k.value_width
  pub value_bytes : (v : List ℕ) → k.valid_value v ≡ true → bytes v ≡ true
  -- same means equal bytes
  pub itself : (a : List ℕ) → k.order a a ≡ Equal
  pub same : (a b : List ℕ) → k.valid_key a ≡ true → k.valid_key b ≡ true → k.order a b ≡ Equal → a ≡ b
  -- a is below b exactly when b is above a
  pub mirrored : (a b : List ℕ) → k.order b a ≡ ordering_reverse (k.order a b)
  -- below is transitive
  pub onward :
      (a b c : List ℕ) → k.valid_key a ≡ true → k.valid_key b ≡ true → k.valid_key c ≡ true
      → k.order a b ≡ Less → k.order b c ≡ Less → k.order a c ≡ Less
