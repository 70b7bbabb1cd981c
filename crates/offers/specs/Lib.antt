-- The promise of a private function. What an offer promises stands in `types`: `Calls`.
pub mod RulesMet
