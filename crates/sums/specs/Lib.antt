pub mod SumsBack
