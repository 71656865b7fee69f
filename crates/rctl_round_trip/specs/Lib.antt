pub mod RoundTrip
pub mod PassedOn
