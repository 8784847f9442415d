use Rattle.std.proofs.Common.{refl}
use Rattle.aes_gcm.specs.Aes.{aes, schedule, expanded, changed_word, round_constant, power_of_x, rot_word, word, cipher, rounds, round_key, xored, mix_columns, mix_column, shift_rows, sub_bytes, sub_byte, affine, inverse, inverse_below, times, times_low}
use Rattle.aes_gcm.specs.Gcm.{sealed, tag_of, nonce_of, cipher_of, tag_under, hashed_text, hash_subkey, encrypted, key_stream, counter_block, ghash, hashed_from, padded_to_blocks, block_count, block_at, product, product_low, next_power, element}
use Rattle.aes_gcm.proofs.known_answers.definitions_give_known_answers.Goals as goal

pub returns-clause-aes_128 : goal.returns-clause-aes_128
unfolding aes schedule expanded changed_word round_constant power_of_x rot_word word cipher rounds round_key xored mix_columns mix_column shift_rows sub_bytes sub_byte affine inverse inverse_below times times_low
returns-clause-aes_128 c = refl

pub returns-clause-aes_256 : goal.returns-clause-aes_256
unfolding aes schedule expanded changed_word round_constant power_of_x rot_word word cipher rounds round_key xored mix_columns mix_column shift_rows sub_bytes sub_byte affine inverse inverse_below times times_low
returns-clause-aes_256 c = refl

pub returns-clause-empty : goal.returns-clause-empty
unfolding aes schedule expanded changed_word round_constant power_of_x rot_word word cipher rounds round_key xored mix_columns mix_column shift_rows sub_bytes sub_byte affine inverse inverse_below times times_low sealed tag_of nonce_of cipher_of tag_under hashed_text hash_subkey encrypted key_stream counter_block ghash hashed_from padded_to_blocks block_count block_at product product_low next_power element
returns-clause-empty c = refl

pub returns-clause-zeros : goal.returns-clause-zeros
unfolding aes schedule expanded changed_word round_constant power_of_x rot_word word cipher rounds round_key xored mix_columns mix_column shift_rows sub_bytes sub_byte affine inverse inverse_below times times_low sealed tag_of nonce_of cipher_of tag_under hashed_text hash_subkey encrypted key_stream counter_block ghash hashed_from padded_to_blocks block_count block_at product product_low next_power element
returns-clause-zeros c = refl

pub returns-clause-associated_data : goal.returns-clause-associated_data
unfolding aes schedule expanded changed_word round_constant power_of_x rot_word word cipher rounds round_key xored mix_columns mix_column shift_rows sub_bytes sub_byte affine inverse inverse_below times times_low sealed tag_of nonce_of cipher_of tag_under hashed_text hash_subkey encrypted key_stream counter_block ghash hashed_from padded_to_blocks block_count block_at product product_low next_power element
returns-clause-associated_data c = refl
