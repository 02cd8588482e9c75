-- What the code goes by and no reader of document 02 has to believe: the laws in proofs/ tie it to the definitions beside this folder.
pub mod Pen
pub mod Ring
pub mod Tally
