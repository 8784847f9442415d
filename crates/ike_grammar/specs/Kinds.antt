use Rattle.std.specs.Prelude.{ℕ, Bool, true, false, ◌==◌, if◌then◌else◌}
use Rattle.ike_grammar.specs.declared.kind.Kind.{Kind}
use Rattle.ike_grammar.specs.declared.kind.Kind.TheVariants.{Sa, Ke, IdI, IdR, Cert, CertReq, Auth, Nonce, Notify, Delete, Vendor, TsI, TsR, Sk, Cp, Eap, Other}

-- the payload types (RFC 7296, section 3.2)
abbrev pub payload_kind : ℕ → Kind
payload_kind number =
    if number == 33 then Sa
    else if number == 34 then Ke
    else if number == 35 then IdI
    else if number == 36 then IdR
    else if number == 37 then Cert
    else if number == 38 then CertReq
    else if number == 39 then Auth
    else if number == 40 then Nonce
    else if number == 41 then Notify
    else if number == 42 then Delete
    else if number == 43 then Vendor
    else if number == 44 then TsI
    else if number == 45 then TsR
    else if number == 46 then Sk
    else if number == 47 then Cp
    else if number == 48 then Eap
    else Other

abbrev pub is_sk : Kind → Bool
is_sk Sk = true
is_sk kind = false

abbrev pub is_other : Kind → Bool
is_other Other = true
is_other kind = false
