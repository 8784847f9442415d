-- The values of payloads as plain data: what the types of the code hold, without where it lies in
-- memory.
use Rattle.std.specs.Prelude.{ℕ, List}

pub data AttributeValue : Type 0 where
  fixed : ℕ → ℕ → AttributeValue
  free : ℕ → List ℕ → AttributeValue

pub record TransformValue : Type 0 where
  pub kind : ℕ
  pub id : ℕ
  pub attributes : List AttributeValue

pub record ProposalValue : Type 0 where
  pub number : ℕ
  pub protocol : ℕ
  pub spi : List ℕ
  pub transforms : List TransformValue

pub record SelectorValue : Type 0 where
  pub kind : ℕ
  pub protocol : ℕ
  pub start_port : ℕ
  pub end_port : ℕ
  pub start : List ℕ
  pub end : List ℕ

pub record IdValue : Type 0 where
  pub kind : ℕ
  pub content : List ℕ

pub record AuthValue : Type 0 where
  pub method : ℕ
  pub content : List ℕ

pub record NotifyValue : Type 0 where
  pub protocol : ℕ
  pub spi : List ℕ
  pub kind : ℕ
  pub content : List ℕ

pub record DeleteValue : Type 0 where
  pub protocol : ℕ
  pub size : ℕ
  pub number : ℕ
  pub spis : List ℕ

pub record SkValue : Type 0 where
  pub first : ℕ
  pub iv : ℕ
  pub ciphertext : List ℕ
  pub icv : List ℕ

pub record OtherValue : Type 0 where
  pub kind : ℕ
  pub body : List ℕ

pub data PayloadValue : Type 0 where
  sa : List ProposalValue → PayloadValue
  ke : List ℕ → PayloadValue
  idi : IdValue → PayloadValue
  idr : IdValue → PayloadValue
  cert : List ℕ → PayloadValue
  certreq : List ℕ → PayloadValue
  auth : AuthValue → PayloadValue
  nonce : List ℕ → PayloadValue
  notify : NotifyValue → PayloadValue
  delete : DeleteValue → PayloadValue
  vendor : List ℕ → PayloadValue
  tsi : List SelectorValue → PayloadValue
  tsr : List SelectorValue → PayloadValue
  sk : SkValue → PayloadValue
  cp : List ℕ → PayloadValue
  eap : List ℕ → PayloadValue
  other : OtherValue → PayloadValue
