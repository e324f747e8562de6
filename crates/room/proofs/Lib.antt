pub mod PutBytes
