use Rattle.std.proofs.Common.{refl}
use Rattle.sha2.specs.Sha256.{sha256, digest_bytes, hash_after, compress, rounds, schedule, first_words}
use Rattle.key_schedule.specs.Hmac.{hmac, masked_octets, padded_block}
use Rattle.key_schedule.proofs.known_answers.hmac_gives_known_answers.Goals as goal

pub returns-clause-first : goal.returns-clause-first
unfolding hmac masked_octets padded_block sha256 digest_bytes hash_after compress rounds schedule first_words
returns-clause-first c = refl

pub returns-clause-short_key : goal.returns-clause-short_key
unfolding hmac masked_octets padded_block sha256 digest_bytes hash_after compress rounds schedule first_words
returns-clause-short_key c = refl

pub returns-clause-long_key : goal.returns-clause-long_key
unfolding hmac masked_octets padded_block sha256 digest_bytes hash_after compress rounds schedule first_words
returns-clause-long_key c = refl
