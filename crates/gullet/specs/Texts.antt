-- The texts for which expansion is asked from outside (The TeXbook, chapters 20, 24 and 25; tex.web, part 27).
use Rattle.std.specs.Prelude.{ℕ, Bool, true, false, List, [], Ok}
use Rattle.tokens.specs.declared.token.Token.{Token}
use Rattle.asking.specs.Meaning.{Meant, still, ◌>>=◌}
use Rattle.asking.specs.Seen.{Outside}
use Rattle.gullet.specs.declared.task.Task.TheVariants as task
use Rattle.gullet.specs.declared.task.Told.{Told}
use Rattle.gullet.specs.declared.task.Told.TheVariants as told
use Rattle.gullet.specs.Expansion.{outcome, outermost}
use Rattle.gullet.specs.State.{State}
use Rattle.gullet.specs.Wants.{text_told, tokens_told}

-- the name of a file (tex.web 526)
unfoldable pub take_file_name : Outside → State → Meant State (List ℕ)
take_file_name o s = outcome o outermost task.FileName s >>= (λ r. still (Ok (text_told r.0, r.1)))

-- a text in braces, whose tokens are taken as they stand (tex.web 473 and 477)
unfoldable pub take_general_text : Outside → State → Meant State (List Token)
take_general_text o s = outcome o outermost (task.Text false) s >>= (λ r. still (Ok (tokens_told r.0, r.1)))

-- the same, whose tokens are expanded (tex.web 473 and 478)
unfoldable pub expanded_text : Outside → State → Meant State (List Token)
expanded_text o s = outcome o outermost (task.Text true) s >>= (λ r. still (Ok (tokens_told r.0, r.1)))

-- the parameter text and the text of a macro
abbrev pub definition_told : Told → List Token × List Token
definition_told told.Done = ([], [])
definition_told (told.Number n) = ([], [])
definition_told (told.Word word) = ([], [])
definition_told (told.Level level) = ([], [])
definition_told told.GoOn = ([], [])
definition_told (told.Text text) = ([], [])
definition_told (told.Holds b) = ([], [])
definition_told (told.Tokens tokens) = ([], [])
definition_told (told.Definition parameters body) = (parameters, body)

-- what stands behind the name in a definition, whose text is expanded or not (tex.web 473 to 479)
unfoldable pub take_definition : Outside → Bool → State → Meant State (List Token × List Token)
take_definition o expanded s = outcome o outermost (task.Definition expanded) s >>= (λ r. still (Ok (definition_told r.0, r.1)))
