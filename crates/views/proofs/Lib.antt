pub mod SeenTruths
