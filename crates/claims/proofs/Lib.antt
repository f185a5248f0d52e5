-- The page.
pub mod Claims
