pub mod Card
pub mod CardCall
pub mod Verilog
pub mod VerilogRead
pub mod WorkedCards
