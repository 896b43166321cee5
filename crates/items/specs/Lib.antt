-- How the types of the code stand for the rules'.
pub mod Items
