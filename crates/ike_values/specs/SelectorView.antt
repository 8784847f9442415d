use Rattle.ike_values.specs.Values.{SelectorValue}
use Rattle.ike_values.specs.declared.selector.Selector.{Selector}

-- what a selector of the code is
abbrev pub selector_value : Selector → SelectorValue
selector_value x = record {
  kind = x.kind;
  protocol = x.protocol;
  start_port = x.start_port;
  end_port = x.end_port;
  start = x.start;
  end = x.end;
}
