-- What the contracts say of a token that is dropped, and of the body of an \if.
pub mod Body
