mod Arriving
mod GenuineLaws
pub mod KeySizes
mod MessageLaws
mod MessageMoves
mod Moves
mod SlotLaws
mod SlotLemmas
mod SyncMoves
