pub mod Lending
pub mod Premise
pub mod Once
pub mod RuleTexts
