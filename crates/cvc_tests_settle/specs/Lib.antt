pub mod TestCircuits
