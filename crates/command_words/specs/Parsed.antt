-- The options that a parse of `clap` found.
use Rattle.std.specs.Prelude.{[], codes, option_map, unwrap_or}
use Rattle.clap.specs.Words.{first_value, found_of, matched_of, raw_values}
use Rattle.clap.specs.declared.parser.matches.ArgMatches.{ArgMatches}
use Rattle.command_words.specs.Options.{Given}

abbrev pub given_in : ArgMatches → Given
given_in matches = record {
  words = unwrap_or (option_map raw_values (matched_of (found_of matches) (codes "word"))) [];
  max = first_value (found_of matches) (codes "max");
}
