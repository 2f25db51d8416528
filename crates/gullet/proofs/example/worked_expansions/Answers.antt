-- The definitions compute.
use Rattle.std.proofs.Common.{refl}
use Rattle.tokens.specs.Names.{interned}
use Rattle.tokens.specs.Primitives.{primitive_names, compatibility_names, extended_names, expandable_names, integer_parameters, dimension_parameters, glue_parameters, token_parameters, quantity_names, assignment_names, group_names, box_names, left_out_names, etex_expandable_names, etex_quantity_names, etex_other_names, etex_left_out_names}
use Rattle.asking.specs.Meaning.{walk, asks_within}
use Rattle.std.specs.Fmt.{digits}
use Rattle.scan_nums.specs.Constants.{digit_of}
use Rattle.scan_nums.specs.Starts.{byte_of, is_space, start_of}
use Rattle.phrases.specs.Phrases.{gives}
use Rattle.gullet.specs.Parameters.{categories}
use Rattle.gullet.specs.Report.{file_begun, file_over, trouble_told}
use Rattle.gullet.specs.Meanings.{taken_meaning}
use Rattle.gullet.specs.Events.{next_event_of, take_event}
use Rattle.gullet.specs.Troubles.{pass, pass_undefined}
use Rattle.gullet.specs.RawToken.{raw_past, next_raw, one_token}
use Rattle.gullet.specs.Acts.{look_numbered, look_code, simply, show_token, show_meaning, compare_meanings, pass_register, look_register, look_parameter, open_condition, leave, meet, make_name, refused, begun, found, open_file, read_file, perform}
use Rattle.gullet.specs.Wants.{last_token, wants}
use Rattle.gullet.specs.Expansion.{raw_found, expanded_found, character_found, next_found, by_want, most_turns, outcome}
use Rattle.gullet.proofs.example.worked_expansions.Goals as goal

pub returns : goal.returns
unfolding digits digit_of interned primitive_names compatibility_names extended_names expandable_names integer_parameters dimension_parameters glue_parameters token_parameters quantity_names assignment_names group_names box_names left_out_names etex_expandable_names etex_quantity_names etex_other_names etex_left_out_names walk asks_within byte_of is_space start_of gives categories file_begun file_over trouble_told taken_meaning next_event_of take_event pass pass_undefined pass_register look_register look_numbered look_code look_parameter raw_past next_raw one_token simply show_token show_meaning compare_meanings open_condition leave meet make_name refused begun found open_file read_file perform last_token wants raw_found expanded_found character_found next_found by_want most_turns outcome
returns c = record { worked = record { number = λ facts. refl; yes = λ facts. refl; no = λ facts. refl; after = λ facts. refl; name = λ facts. refl; roman = λ facts. refl; odd = λ facts. refl; never = λ facts. refl; cases = λ facts. refl; same = λ facts. refl; alike = λ facts. refl; of_a_kind = λ facts. refl; string = λ facts. refl; meaning = λ facts. refl; code = λ facts. refl; call = λ facts. refl } }
