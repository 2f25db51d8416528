-- How long the decoded tables are.
use Rattle.std.proofs.lemmas.List.FromFn.{length-map-range_with_len}

pub ruleset table_lengths = (length-map-range_with_len)
