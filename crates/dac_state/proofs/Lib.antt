mod Hearing
mod Making
mod Reading
mod StateCodec
mod StatePieces
mod Covered
