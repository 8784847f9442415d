use Rattle.ike_values.specs.Values.{IdValue, AuthValue, NotifyValue, DeleteValue, SkValue, OtherValue, PayloadValue}
use Rattle.ike_values.specs.Values as values
use Rattle.ike_values.specs.declared.payload.IdBody.{IdBody}
use Rattle.ike_values.specs.declared.payload.AuthBody.{AuthBody}
use Rattle.ike_values.specs.declared.payload.NotifyBody.{NotifyBody}
use Rattle.ike_values.specs.declared.payload.DeleteBody.{DeleteBody}
use Rattle.ike_values.specs.declared.payload.SkBody.{SkBody}
use Rattle.ike_values.specs.declared.payload.OtherBody.{OtherBody}
use Rattle.ike_values.specs.declared.payload.Payload.{Payload}
use Rattle.ike_values.specs.declared.payload.Payload.TheVariants.{Sa, Ke, IdI, IdR, Cert, CertReq, Auth, Nonce, Notify, Delete, Vendor, TsI, TsR, Sk, Cp, Eap, Other}

abbrev pub id_value : IdBody → IdValue
id_value x = record { kind = x.kind; content = x.content.octets }

abbrev pub auth_value : AuthBody → AuthValue
auth_value x = record { method = x.method; content = x.content.octets }

abbrev pub notify_value : NotifyBody → NotifyValue
notify_value x = record {
  protocol = x.protocol;
  spi = x.spi.octets;
  kind = x.kind;
  content = x.content.octets;
}

abbrev pub delete_value : DeleteBody → DeleteValue
delete_value x = record {
  protocol = x.protocol;
  size = x.size;
  number = x.number;
  spis = x.spis.octets;
}

abbrev pub sk_value : SkBody → SkValue
sk_value x = record { first = x.first; iv = x.iv; ciphertext = x.ciphertext.octets; icv = x.icv }

abbrev pub other_value : OtherBody → OtherValue
other_value x = record { kind = x.kind; body = x.body.octets }

-- what a payload of the code is
abbrev pub payload_value : Payload → PayloadValue
payload_value (Sa x) = values.sa x
payload_value (Ke x) = values.ke x.octets
payload_value (IdI x) = values.idi (id_value x)
payload_value (IdR x) = values.idr (id_value x)
payload_value (Cert x) = values.cert x.octets
payload_value (CertReq x) = values.certreq x.octets
payload_value (Auth x) = values.auth (auth_value x)
payload_value (Nonce x) = values.nonce x.octets
payload_value (Notify x) = values.notify (notify_value x)
payload_value (Delete x) = values.delete (delete_value x)
payload_value (Vendor x) = values.vendor x.octets
payload_value (TsI x) = values.tsi x
payload_value (TsR x) = values.tsr x
payload_value (Sk x) = values.sk (sk_value x)
payload_value (Cp x) = values.cp x.octets
payload_value (Eap x) = values.eap x.octets
payload_value (Other x) = values.other (other_value x)
