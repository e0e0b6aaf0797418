pub mod Flooding
