pub mod Below
pub mod Choice
pub mod Lists
pub mod Mean
