pub mod TextFaults
