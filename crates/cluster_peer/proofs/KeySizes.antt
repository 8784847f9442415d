-- The keys of a record have one of two lengths: passed on for the functions that cite it.
pub use Rattle.turn_rules.proofs.KeySizes.{sized_sk_ei, sized_sk_er, sized_to_cluster, sized_to_peer}
