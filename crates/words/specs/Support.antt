-- What laws speak of and no reader of document 01 has to believe: the laws in proofs/ tie it to the definitions beside this folder.
pub mod Words
