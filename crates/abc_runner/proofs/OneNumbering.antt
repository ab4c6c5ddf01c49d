-- The choices that a record's numbers are: there is one list of them.
use Rattle.std.proofs.Common.{◌≡◌, ◌∙◌, ℕ, ◌+◌, List, [], ◌∷◌, length, Option, None, refl, sym, ap, subst, arith}
use Rattle.abc_packet.specs.declared.choice.Choice.{Choice}
use Rattle.abc_packet.specs.declared.log.Entry.{Entry}
use Rattle.abc_logs.specs.Choices.{IsChoice, AreChoices}
use Rattle.abc_merge.proofs.Known.{count_is}
use Rattle.abc_moves.specs.declared.label.Label.{Label}
use Rattle.abc_net.specs.declared.record.Record.{Record}
use Rattle.abc_net.specs.Records.{agents_logs}
use Rattle.abc_record_text.specs.RecordTexts.{AreChoicesOf}

-- the first of a list, which has one where it is asked
abbrev first : List (ℕ × Option ℕ) → ℕ × Option ℕ
first [] = (0, None)
first (x ∷ xs) = x

-- a choice of its parts
abbrev choice : ℕ × Option ℕ → List (ℕ × ℕ) → Choice
choice spoke heard = record { sender = spoke.0; place = spoke.1; heard = heard }

-- a number has one choice,
one_choice : {L : Type 0} (logs : List (List (Entry L))) (n : ℕ) (c d : Choice) → IsChoice logs n c → IsChoice logs n d → c ≡ d
one_choice logs n c d h k =
    let spoke : (c.sender, c.place) ≡ (d.sender, d.place) = ap first (sym h.sender ∙ k.sender) in
    let heard : c.heard ≡ d.heard = sym h.heard ∙ k.heard in λ t. choice (spoke t) (heard t)

-- so as many numbers have one list of choices,
one_list : {L : Type 0} (logs : List (List (Entry L))) (n : ℕ) (cs ds : List Choice) → length cs ≡ length ds → AreChoices logs n cs →
    AreChoices logs n ds → cs ≡ ds
one_list logs n [] [] e h k = refl
one_list logs n [] (d ∷ ds) e h k = absurd (omega (arith, e))
one_list logs n (c ∷ cs) [] e h k = absurd (omega (arith, e))
one_list logs n (c ∷ cs) (d ∷ ds) e h k =
    let one = one_choice logs n c d h.0 k.0 in
    let rest = one_list logs (n + 1) cs ds (omega (arith, e)) h.1 k.1 in λ t. one t ∷ rest t

-- and a record tells how many numbers it has.
pub one_numbering : (ran ran' : Record Label) (cs ds : List Choice) → ran ≡ ran' → AreChoicesOf ran cs → AreChoicesOf ran' ds → cs ≡ ds
one_numbering ran ran' cs ds same h k =
    let told : AreChoicesOf ran' cs = subst (λ (r : Record Label). AreChoicesOf r cs) same h in
    let many : length cs ≡ length ds =
    sym (count_is (agents_logs ran') (length cs) told.numbered) ∙ count_is (agents_logs ran') (length ds) k.numbered in
    one_list (agents_logs ran') 1 cs ds many told.told k.told
