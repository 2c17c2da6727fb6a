use Rattle.law_parse.proofs.PrintedLaws.{printed_is_read}
use Rattle.law_parse.proofs.PrintedTokens.{split_of_printed, tokens_formed}
use Rattle.law_parse.proofs.Respelled.{stmt_respelled}
use Rattle.law_parse.proofs.laws.printed_is_read.Goals as goal

pub returns : goal.returns
returns c = printed_is_read split_of_printed tokens_formed stmt_respelled
