-- What joining a node's rules comes to.
use Rattle.std.specs.Prelude.{◌≡◌, List, ℕ, get_or, Result, Ok, Err, ⊤}
use Rattle.classes.specs.Table.{Table}
use Rattle.nodes.specs.Layout.{Numbered, says}
use Rattle.combinators.specs.Entered.{Meets}
use Rattle.types.specs.States.{Stops}
use Rattle.offers.specs.declared.Clash.{Clash}

-- all the rules joined, or the k-th clashed, which is named
abbrev pub RulesMet : Table → List Numbered → Result ⊤ Clash → Table → Type 0
RulesMet t rs (Ok _) u = Meets t rs u
RulesMet t rs (Err c) u = (k : ℕ) × Stops t rs k u × (c.rule ≡ (get_or rs k (says 0 0 0)).number)
