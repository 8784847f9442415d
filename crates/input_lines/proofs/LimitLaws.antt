-- Lines that pass the end of an input, and lines that pass.
use Rattle.std.proofs.Common.{◌≡◌, ℕ, ◌+◌, ◌-◌, ◌<◌, ◌≤◌, Bool, true, false, ◌&&◌, cond, ltb, leb, Option, Some, None, Result, Ok, refl, arith, inl, inr}
use Rattle.std.proofs.lemmas.Bool.{cases_lt, le-leb, le-ltb, lt-leb, lt-ltb}
use Rattle.line_fields.specs.declared.fault.LineFault.{LineFault}
use Rattle.line_fields.specs.declared.fault.LineReason.TheVariants as reasons
use Rattle.line_fields.specs.Fields.{fault_at}
use Rattle.input_lines.specs.Limits.{overlong, unless_fault}

false_right : (a b : Bool) → b ≡ false → (a && b) ≡ false
false_right true b h = h
false_right false b h = refl

-- both are the same fault, since the line is faulty whatever follows
pub overlong_both : (before octets size more_octets more_size : ℕ) → before ≤ 67108864 → 67108865 ≤ before + octets → 67108865 ≤ before + size → octets ≤ more_octets → size ≤ more_size → overlong before more_octets more_size ≡ overlong before octets size
overlong_both before octets size more_octets more_size within past past_size fewer shorter =
    elim (cases_lt 67108865 (before + 16385)) [
      | inl far ↦
          rw (false_right (ltb 16384 more_size) (leb (before + 16385) 67108865) (lt-leb (before + 16385) 67108865 far), false_right (ltb 16384 size) (leb (before + 16385) 67108865) (lt-leb (before + 16385) 67108865 far), lt-ltb 67108864 (before + more_octets) (omega arith), lt-ltb 67108864 (before + octets) (omega arith)) refl
      | inr near ↦
          rw (lt-ltb 16384 more_size (omega arith), lt-ltb 16384 size (omega arith), le-leb (before + 16385) 67108865 near) refl
    ]

-- how a line that passes the end is at fault
pub record IsPast (before n : ℕ) : Type 0 where
  pub fault : LineFault
  pub is : overlong before n n ≡ Some fault

pub past : (before n : ℕ) → before ≤ 67108864 → 67108865 ≤ before + n → IsPast before n
past before n within far_enough =
    elim (cases_lt 67108865 (before + 16385)) [
      | inl far ↦
          record {
            fault = fault_at (67108865 - before) reasons.FileTooLong;
            is = rw (false_right (ltb 16384 n) (leb (before + 16385) 67108865) (lt-leb (before + 16385) 67108865 far), lt-ltb 67108864 (before + n) (omega arith)) refl;
          }
      | inr near ↦
          record {
            fault = fault_at 16385 reasons.LineTooLong;
            is = rw (lt-ltb 16384 n (omega arith), le-leb (before + 16385) 67108865 near) refl;
          }
    ]

pub unless_ok : {A : Type 0} (o : Option LineFault) (r : Result A LineFault) (x : A) → unless_fault o r ≡ Ok x → o ≡ None
unless_ok (Some f) r x e = absurd cc
unless_ok None r x e = refl

pub overlong_none : (before octets size : ℕ) → overlong before octets size ≡ None → before + octets ≤ 67108864
overlong_none before octets size e =
    elim (cases_lt 67108864 (before + octets)) [
      | inl more ↦ absurd (passes (ltb 16384 size && leb (before + 16385) 67108865) (rw (lt-ltb 67108864 (before + octets) more) at e))
      | inr le ↦ le
    ]
  where
    passes : (b : Bool) → cond b (Some (fault_at 16385 reasons.LineTooLong)) (Some (fault_at (67108865 - before) reasons.FileTooLong)) ≡ None → ⊥
    passes true h = absurd cc
    passes false h = absurd cc

-- a line that is measured and passes is short
pub short_line : (before octets size : ℕ) → size ≤ octets → overlong before octets size ≡ None → size ≤ 16384
short_line before octets size with_line_feeds e =
    elim (cases_lt 16384 size) [
      | inl long ↦
          elim (cases_lt 67108864 (before + octets)) [
            | inl past ↦ absurd (passes (ltb 16384 size && leb (before + 16385) 67108865) (rw (lt-ltb 67108864 (before + octets) past) at e))
            | inr within ↦ absurd (is_long (rw (lt-ltb 16384 size long, le-leb (before + 16385) 67108865 (omega arith)) at e))
          ]
      | inr short ↦ short
    ]
  where
    passes : (b : Bool) → cond b (Some (fault_at 16385 reasons.LineTooLong)) (Some (fault_at (67108865 - before) reasons.FileTooLong)) ≡ None → ⊥
    passes true h = absurd cc
    passes false h = absurd cc

    is_long : {f : LineFault} → Some f ≡ None → ⊥
    is_long h = absurd cc

-- a line within both limits
pub none_overlong : (before octets size : ℕ) → size ≤ 16384 → before + octets ≤ 67108864 → overlong before octets size ≡ None
none_overlong before octets size short within = rw (le-ltb 16384 size short, le-ltb 67108864 (before + octets) within) refl

-- a line that is too long, within the file
pub line_overlong : (before octets size : ℕ) → 16385 ≤ size → before + 16384 ≤ 67108864 → overlong before octets size ≡ Some (fault_at 16385 reasons.LineTooLong)
line_overlong before octets size long within = rw (lt-ltb 16384 size long, le-leb (before + 16385) 67108865 (omega (arith, within))) refl

-- a line that passes the end of the file, and is not too long
pub file_overlong : (before octets size : ℕ) → 67108865 ≤ before + octets → size ≤ 16384 → overlong before octets size ≡ Some (fault_at (67108865 - before) reasons.FileTooLong)
file_overlong before octets size past short = rw (le-ltb 16384 size short, lt-ltb 67108864 (before + octets) past) refl

-- a line that passes the end of the file before it is too long
pub end_overlong : (before octets size : ℕ) → 67108865 ≤ before + octets → 67108865 < before + 16385 → overlong before octets size ≡ Some (fault_at (67108865 - before) reasons.FileTooLong)
end_overlong before octets size past far = rw (false_right (ltb 16384 size) (leb (before + 16385) 67108865) (lt-leb (before + 16385) 67108865 far), lt-ltb 67108864 (before + octets) past) refl
