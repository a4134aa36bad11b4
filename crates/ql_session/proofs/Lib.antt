pub mod RowLaws
pub mod MissingLaws
pub mod NoteLaws
pub mod PastLaws
pub mod WalkLaws
pub mod PairLaws
