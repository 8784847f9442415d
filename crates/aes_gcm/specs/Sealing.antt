-- What holds of sealing, whatever is sealed.
use Rattle.std.specs.Prelude.{◌≡◌, ℕ, List, length}
use Rattle.aes_gcm.specs.Gcm.{sealed}

-- sealing under these octets keeps the length, makes a tag of sixteen octets, and loses nothing
pub record IsSealing (octets : List ℕ) : Type 0 where
  pub ciphertext_length : (iv : ℕ) (aad plain : List ℕ)
      → length (sealed octets iv aad plain).ciphertext ≡ length plain
  pub tag_length : (iv : ℕ) (aad plain : List ℕ) → length (sealed octets iv aad plain).tag ≡ 16
  pub injective : (iv : ℕ) (aad first second : List ℕ)
      → sealed octets iv aad first ≡ sealed octets iv aad second → first ≡ second
