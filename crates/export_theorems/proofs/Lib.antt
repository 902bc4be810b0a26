pub mod CardLaws
pub mod Card
pub mod Scanning
pub mod VerilogRead
pub mod VerilogText
pub mod VerilogLength
pub mod Verilog
pub mod Worked
