use Rattle.std.proofs.Common.{rules, ◌≡◌, ◌∙◌, ap₂}
use Rattle.clap.specs.Words.{app_of, rule_of, with_rule}
use Rattle.command_words.proofs.ParseLemmas.{app, bare, word_arg, max_arg, ok-given, err-refused}
use Rattle.command_words.proofs.options.parse.Goals as goal

pub returns-clause-given : goal.returns-clause-given
returns-clause-given c =
    let word_is : rule_of c.action-word.result ≡ word_arg = search rules in
    let max_is : rule_of c.long-max.result ≡ max_arg = search rules in
    let bare_is : app_of c.disable_version_flag.result ≡ bare = search rules in
    let made : app_of c.in_ok-command.command ≡ app = c.in_ok-command.ensures.shape (search rules)
    ∙ ap₂ with_rule (c.in_ok-arg.ensures.shape (search rules) ∙ ap₂ with_rule bare_is word_is) max_is in
    ok-given _ _ c.try_get_matches_from.result made c.try_get_matches_from.ensures.kinds c.try_get_matches_from.ensures.matches

pub returns-clause-refused : goal.returns-clause-refused
returns-clause-refused c =
    let word_is : rule_of c.action-word.result ≡ word_arg = search rules in
    let max_is : rule_of c.long-max.result ≡ max_arg = search rules in
    let bare_is : app_of c.disable_version_flag.result ≡ bare = search rules in
    let made : app_of c.in_ok-command.command ≡ app = c.in_ok-command.ensures.shape (search rules)
    ∙ ap₂ with_rule (c.in_ok-arg.ensures.shape (search rules) ∙ ap₂ with_rule bare_is word_is) max_is in
    err-refused _ _ c.try_get_matches_from.result made c.try_get_matches_from.ensures.kinds
