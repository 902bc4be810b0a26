pub mod WorkedCards
