pub mod DueLaws
pub mod WordLaws
pub mod EventLaws
pub mod NoteLaws
pub mod RuleLaws
