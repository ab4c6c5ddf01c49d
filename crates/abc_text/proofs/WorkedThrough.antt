-- The worked examples compute.
use Rattle.std.proofs.Common.{◌≡◌, true, refl, arith}
use Rattle.std.proofs.lemmas.List.Elements.{All-replicate}
use Rattle.abc_text.specs.Tokens.{is_word_byte, is_printable, skip, number_token, text_token, next, stands_after}
use Rattle.abc_text.specs.Words.{keyword_at, mark_at}
use Rattle.abc_text.specs.Worked.{WorkedTokens, WorkedLimits, WorkedWords}

pub worked_tokens : WorkedTokens
unfolding skip keyword_at mark_at number_token text_token next stands_after
worked_tokens = record {
  header = (record { token = refl; place = refl }, (record { token = refl; place = refl }, (record { token = refl; place = refl }, refl)));
  close = (record { token = refl; place = refl }, (record { token = refl; place = refl }, (record { token = refl; place = refl }, (record { token = refl; place = refl }, refl))));
  text = (record { token = refl; place = refl }, refl);
  sign = (record { token = refl; place = refl }, (record { token = refl; place = refl }, refl));
  subtraction = (record { token = refl; place = refl }, (record { token = refl; place = refl }, (refl, refl)));
  keyword = (record { token = refl; place = refl }, (record { token = refl; place = refl }, (record { token = refl; place = refl }, refl)));
  literal = (record { token = refl; place = refl }, (record { token = refl; place = refl }, (refl, refl)));
  colon = (record { token = refl; place = refl }, (refl, refl));
  open_text = (record { token = refl; place = refl }, (refl, refl));
}

pub worked_limits : WorkedLimits
unfolding skip keyword_at mark_at number_token text_token next stands_after
worked_limits = record {
  name = (record { token = refl; place = refl }, refl);
  long_name = (refl, refl);
  variable = (record { token = refl; place = refl }, refl);
  long_variable = (refl, refl);
  spelled_name = (refl, All-replicate (λ b. is_word_byte b ≡ true) 31 97 refl, omega arith);
  no_spelled_name = λ h. absurd (omega (arith, h.2));
  text = (record { token = refl; place = refl }, refl);
  long_text = (refl, refl);
  quoted = (record { token = refl; place = refl }, refl);
  long_quoted = (refl, refl);
  open_text = (refl, refl);
  spelled_text = record { short = omega arith; bytes = All-replicate (λ b. is_printable b ≡ true) 64 97 refl };
  no_spelled_text = λ h. absurd (omega (arith, h.short));
  number = (record { token = refl; place = refl }, refl);
  wide_number = (refl, refl);
  wide_signed = (record { token = refl; place = refl }, (refl, refl));
}

pub worked_words : WorkedWords
worked_words = record { keywords = refl; marks = refl }
