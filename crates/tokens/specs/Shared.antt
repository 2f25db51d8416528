-- What a token list holds.
use Rattle.std.specs.Prelude.{List, [], Option, Some, None}
use Rattle.std.specs.Rc.{rc_slice_items}
use Rattle.std.specs.declared.rc.RcSlice.{RcSlice}
use Rattle.std.specs.declared.alloc.Global.{Global}
use Rattle.tokens.specs.declared.token.Token.{Token}

-- the tokens behind a handle, or none
abbrev pub shared_items : Option (RcSlice Token Global) → List Token
shared_items None = []
shared_items (Some shared) = rc_slice_items shared
