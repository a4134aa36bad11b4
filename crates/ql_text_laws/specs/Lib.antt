pub mod Printed
pub mod PrintedPrograms
pub mod Prefixes
pub mod ValuePrefixes
