-- The association of a responder's SPI, by the place where it stands.
use Rattle.std.proofs.Common.{◌≡◌, ◌≢◌, ℕ, zero, suc, ◌<◌, ◌==◌, true, false, List, [], ◌∷◌, ◌++◌, length, take, Some, None, get_or, refl, ap, sym, ◌∙◌, arith, option_map, ⊎_elim, if◌then◌else◌}
use Rattle.std.proofs.Math.ListN.{set}
use Rattle.std.proofs.lemmas.Bool.{eq-eqb, ne_eqb}
use Rattle.std.proofs.lemmas.Bool.Decides.{eqb_tells}
use Rattle.keeper_book.specs.Book.{Entry, entry_of, edit_at}
use Rattle.keeper_book.specs.Entries.{IsPlaceOf}

pub entry_of-here : (spir : ℕ) (e : Entry) (es : List Entry) → e.sa.spir ≡ spir → entry_of spir (e ∷ es) ≡ Some e
entry_of-here spir e es h = let t : (e.sa.spir == spir) ≡ true = eq-eqb _ _ h in rw t

pub entry_of-there : (spir : ℕ) (e : Entry) (es : List Entry) → e.sa.spir ≢ spir → entry_of spir (e ∷ es) ≡ entry_of spir es
entry_of-there spir e es h = let t : (e.sa.spir == spir) ≡ false = ne_eqb _ _ h in rw t

pub edit_at-here : (spir : ℕ) (edit : Entry → Entry) (e : Entry) (es : List Entry) → e.sa.spir ≡ spir → edit_at spir edit (e ∷ es) ≡ edit e ∷ es
edit_at-here spir edit e es h = let t : (e.sa.spir == spir) ≡ true = eq-eqb _ _ h in rw t

pub edit_at-there : (spir : ℕ) (edit : Entry → Entry) (e : Entry) (es : List Entry) → e.sa.spir ≢ spir → edit_at spir edit (e ∷ es) ≡ e ∷ edit_at spir edit es
edit_at-there spir edit e es h = let t : (e.sa.spir == spir) ≡ false = ne_eqb _ _ h in rw t

-- where no association has the SPI, the first one has it not, and none behind it
pub not_here : (spir : ℕ) (e : Entry) (es : List Entry) → entry_of spir (e ∷ es) ≡ None → e.sa.spir ≢ spir
not_here spir e es n = λ h. let found : entry_of spir (e ∷ es) ≡ Some e = entry_of-here spir e es h in absurd (cc)

-- an association more that has another SPI
pub none_more : (spir : ℕ) (es : List Entry) (e : Entry) → entry_of spir es ≡ None → e.sa.spir ≢ spir → entry_of spir (es ++ e ∷ []) ≡ None
none_more spir [] e n d = entry_of-there spir e [] d
none_more spir (x ∷ xs) e n d =
    let other = not_here spir x xs n in
    entry_of-there spir x (xs ++ e ∷ []) other ∙ none_more spir xs e (sym (entry_of-there spir x xs other) ∙ n) d

entry_within : (spir place : ℕ) (es : List Entry) (e : Entry) → place < length es → entry_of spir (take place es) ≡ None → e.sa.spir ≡ spir → e ≡ get_or es place e → entry_of spir es ≡ Some e
entry_within spir place [] e w n h at = absurd (omega arith)
entry_within spir zero (x ∷ xs) e w n h at = entry_of-here spir x xs (ap (λ (y : Entry). y.sa.spir) (sym at) ∙ h) ∙ ap Some (sym at)
entry_within spir (suc k) (x ∷ xs) e w n h at =
    let other = not_here spir x (take k xs) n in
    entry_of-there spir x xs other ∙ entry_within spir k xs e (omega arith) (sym (entry_of-there spir x (take k xs) other) ∙ n) h at

edited_within : (spir place : ℕ) (edit : Entry → Entry) (es : List Entry) (e : Entry) → place < length es → entry_of spir (take place es) ≡ None → e.sa.spir ≡ spir → e ≡ get_or es place e → edit_at spir edit es ≡ set es place (edit e)
edited_within spir place edit [] e w n h at = absurd (omega arith)
edited_within spir zero edit (x ∷ xs) e w n h at = edit_at-here spir edit x xs (ap (λ (y : Entry). y.sa.spir) (sym at) ∙ h) ∙ ap (λ y. edit y ∷ xs) (sym at)
edited_within spir (suc k) edit (x ∷ xs) e w n h at =
    let other = not_here spir x (take k xs) n in
    edit_at-there spir edit x xs other ∙ ap (λ ys. x ∷ ys) (edited_within spir k edit xs e (omega arith) (sym (entry_of-there spir x (take k xs) other) ∙ n) h at)

-- the first association with the SPI is found
pub entry_at : (spir place : ℕ) (es : List Entry) (e : Entry) → IsPlaceOf spir place es → e ≡ get_or es place e → entry_of spir es ≡ Some e
entry_at spir place es e is at = entry_within spir place es e is.within is.none_before (is.here e at) at

-- and it is the one that is edited
pub edited_at : (spir place : ℕ) (edit : Entry → Entry) (es : List Entry) (e : Entry) → IsPlaceOf spir place es → e ≡ get_or es place e → edit_at spir edit es ≡ set es place (edit e)
edited_at spir place edit es e is at = edited_within spir place edit es e is.within is.none_before (is.here e at) at

-- an edit that keeps the SPI is found at its SPI
pub entry_of-edit_same : (spir : ℕ) (edit : Entry → Entry) → ((e : Entry) → (edit e).sa.spir ≡ e.sa.spir) → (es : List Entry) → entry_of spir (edit_at spir edit es) ≡ option_map edit (entry_of spir es)
entry_of-edit_same spir edit keeps [] = refl
entry_of-edit_same spir edit keeps (e ∷ es) = ⊎_elim here (there (entry_of-edit_same spir edit keeps es)) (eqb_tells e.sa.spir spir)
  where
    here : ((e.sa.spir == spir) ≡ true) × (e.sa.spir ≡ spir) → entry_of spir (edit_at spir edit (e ∷ es)) ≡ option_map edit (entry_of spir (e ∷ es))
    here t = ap (entry_of spir) (edit_at-here spir edit e es t.1) ∙ (entry_of-here spir (edit e) es (keeps e ∙ t.1) ∙ sym (ap (option_map edit) (entry_of-here spir e es t.1)))

    there : entry_of spir (edit_at spir edit es) ≡ option_map edit (entry_of spir es) → ((e.sa.spir == spir) ≡ false) × (e.sa.spir ≢ spir) → entry_of spir (edit_at spir edit (e ∷ es)) ≡ option_map edit (entry_of spir (e ∷ es))
    there rest t = ap (entry_of spir) (edit_at-there spir edit e es t.1) ∙ (entry_of-there spir e (edit_at spir edit es) t.1 ∙ (rest ∙ sym (ap (option_map edit) (entry_of-there spir e es t.1))))

-- and changes nothing that is found at another
pub entry_of-edit_other : (spir other : ℕ) (edit : Entry → Entry) → ((e : Entry) → (edit e).sa.spir ≡ e.sa.spir) → other ≢ spir → (es : List Entry) → entry_of other (edit_at spir edit es) ≡ entry_of other es
entry_of-edit_other spir other edit keeps d [] = refl
entry_of-edit_other spir other edit keeps d (e ∷ es) = ⊎_elim here (there (entry_of-edit_other spir other edit keeps d es)) (eqb_tells e.sa.spir spir)
  where
    here : ((e.sa.spir == spir) ≡ true) × (e.sa.spir ≡ spir) → entry_of other (edit_at spir edit (e ∷ es)) ≡ entry_of other (e ∷ es)
    here t = ap (entry_of other) (edit_at-here spir edit e es t.1) ∙ (entry_of-there other (edit e) es (λ h. d (sym h ∙ (keeps e ∙ t.1))) ∙ sym (entry_of-there other e es (λ h. d (sym h ∙ t.1))))

    there : entry_of other (edit_at spir edit es) ≡ entry_of other es → ((e.sa.spir == spir) ≡ false) × (e.sa.spir ≢ spir) → entry_of other (edit_at spir edit (e ∷ es)) ≡ entry_of other (e ∷ es)
    there rest t = ap (entry_of other) (edit_at-there spir edit e es t.1) ∙ ap (λ o. if (e.sa.spir == other) then Some e else o) rest
