-- The rules of the layout by their numbers.
use Rattle.std.specs.Prelude.{ℕ}
use Rattle.layout.specs.declared.faults.Rule.{Rule}
use Rattle.layout.specs.declared.faults.Rule.TheVariants.{
  HeaderNumbers,
  ChildCount,
  EntryCount,
  ChildSlots,
  SKeys,
  NodeRest,
  HeadPage,
  LeafCount,
  Marks,
  Keys,
  Values,
  SlotsReached,
}

abbrev pub rule_number : Rule → ℕ
rule_number HeaderNumbers = 1
rule_number ChildCount = 2
rule_number EntryCount = 3
rule_number ChildSlots = 4
rule_number SKeys = 5
rule_number NodeRest = 6
rule_number HeadPage = 7
rule_number LeafCount = 8
rule_number Marks = 9
rule_number Keys = 10
rule_number Values = 11
rule_number SlotsReached = 12
