-- \message and \errmessage (The TeXbook, page 279; tex.web 1279 to 1283).
use Rattle.std.specs.Prelude.{ℕ, List, length, Ok, Err}
use Rattle.tokens.specs.declared.kind.Kind.TheVariants.{UserMessage}
use Rattle.tokens.specs.declared.stop.Stop.TheVariants.{Trouble}
use Rattle.tokens.specs.declared.token.Token.{Token}
use Rattle.tokens.specs.TokenText.{tokens_text}
use Rattle.asking.specs.Did.{Did}
use Rattle.asking.specs.Meaning.{Meant, still, ◌>>=◌}
use Rattle.asking.specs.Seen.{Outside}
use Rattle.gullet.specs.Parameters.{new_line, escape, categories}
use Rattle.gullet.specs.Report.{shown, with_gap}
use Rattle.gullet.specs.State.{State}
use Rattle.gullet.specs.Texts.{expanded_text}

-- a list as bytes, with the names, categories and the escape character of now
abbrev pub text_of : List Token → State → List ℕ
text_of list s = tokens_text s.names (categories s.copies) (escape s.copies) list

-- a text is shown, with room in front of it
abbrev pub with_message : List ℕ → State → State
with_message text s = record s { out = shown text (new_line s.copies) (with_gap (length text) (new_line s.copies) s.out) }

abbrev pub show_message : List Token × State → Did State (Unit {0})
show_message (list, s) = Ok (tt, with_message (text_of list s) s)

unfoldable pub message : Outside → State → Meant State (Unit {0})
message o s = expanded_text o s >>= (λ r. still (show_message r))

-- the document's own trouble ends the run
abbrev pub raise : List Token × State → Did State (Unit {0})
raise (list, s) = Err (Trouble (UserMessage (text_of list s)), s)

unfoldable pub error_message : Outside → State → Meant State (Unit {0})
error_message o s = expanded_text o s >>= (λ r. still (raise r))
