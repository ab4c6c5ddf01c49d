-- What is left to send.
use Rattle.std.proofs.Common.{◌≡◌, ℕ, suc, ◌+◌, ◌≤◌, List, [], ◌∷◌, ◌++◌, length, arith, subst, sym, append-nil}
use Rattle.abc_packet.specs.declared.stamped.Stamped.{Stamped}
use Rattle.abc_packet.specs.Outlets.{Lists, Sends, SameLinks}
use Rattle.abc_packet.proofs.Sendings.{Sends-append}
use Rattle.abc_history.specs.Outs.{AreOnLinks}

-- Some packets are left to send, by an outlet with the same links and with room for them. Once they
-- are sent, all are.
pub record LeftToSend {L : Type 0} (has now : ℕ → Type 0) (before mid : Lists L)
    (all left : List (ℕ × Stamped L)) (room : ℕ) : Type 0 where
  pub links : SameLinks has now
  pub on : AreOnLinks has left
  pub fits : length left ≤ room
  pub sends : (after : Lists L) → Sends mid left after → Sends before all after

-- At first all are left.
pub left-at_first : {L : Type 0} (has : ℕ → Type 0) (before : Lists L) (all : List (ℕ × Stamped L)) (room : ℕ) →
    AreOnLinks has all → length all ≤ room → LeftToSend has has before before all all room
left-at_first has before all room on fits = record {
  links = λ link. (λ h. h, λ h. h);
  on = on;
  fits = fits;
  sends = λ after h. h;
}

-- The first of them is sent.
pub left-after_one : {L : Type 0} (has now next : ℕ → Type 0) (before mid after : Lists L) (all left rest : List (ℕ × Stamped L)) (s : ℕ × Stamped L) (room less : ℕ) →
    LeftToSend has now before mid all left room → left ≡ s ∷ rest → SameLinks now next → Sends mid (s ∷ []) after → room ≤ less + 1 →
    LeftToSend has next before after all rest less
left-after_one {L} has now next before mid after all left rest s room less l is links sent took =
    let on : AreOnLinks has (s ∷ rest) = subst (λ xs. AreOnLinks has xs) is l.on in
    let fits : suc (length rest) ≤ room = rw is at l.fits in
    record {
      links = λ link. (λ h. (links link).0 ((l.links link).0 h), λ h. (l.links link).1 ((links link).1 h));
      on = on.1;
      fits = omega arith;
      sends = λ last h. l.sends last (subst (λ xs. Sends mid xs last) (sym is) (Sends-append mid after last (s ∷ []) rest sent h));
    }

-- Where none is left, all are sent.
pub left-none : {L : Type 0} (has now : ℕ → Type 0) (before mid : Lists L) (all left : List (ℕ × Stamped L)) (room : ℕ) →
    LeftToSend has now before mid all left room → length left ≡ 0 → Sends before all mid
left-none has now before mid all [] room l none = l.sends mid (λ link. sym (append-nil (mid link)))
left-none has now before mid all (s ∷ left) room l none = absurd (omega arith)
