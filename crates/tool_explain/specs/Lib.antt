pub mod Places
pub mod Laws
pub mod Working
pub mod Signed
pub mod Differences
pub mod Used
pub mod Certificates
pub mod Explain
