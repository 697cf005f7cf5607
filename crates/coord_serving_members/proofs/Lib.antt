pub mod OverServer
