pub mod PartsPrinted
