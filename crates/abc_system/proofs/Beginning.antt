-- The system that a program begins with.
use Rattle.std.proofs.Common.{◌≡◌, ◌∙◌, ℕ, suc, ◌<◌, ◌^◌, List, [], ◌∷◌, length, map, All, Some, refl, ap, sym, subst, slice_get, arith}
use Rattle.std.proofs.lemmas.List.{length-map}
use Rattle.std.proofs.lemmas.List.Elements.{All-cons, All-head, All-tail, All-nil}
use Rattle.abc_cause.specs.declared.CheckCause.TheVariants.{TooManyComponents}
use Rattle.abc_checks.specs.declared.causes.Site.TheVariants.{Whole}
use Rattle.abc_checks.specs.Facts.{IsChecked}
use Rattle.abc_term.specs.declared.terms.Program.{Program}
use Rattle.abc_term.specs.declared.terms.Component.{Component}
use Rattle.abc_term.specs.declared.terms.Definition.{Definition}
use Rattle.abc_term.specs.Processes as term
use Rattle.abc_term.specs.Standing.{component_of, system_of}
use Rattle.abc_steps.specs.Alike.{AreAlike}
use Rattle.abc_moves.specs.declared.live.Live.{Live}
use Rattle.abc_moves.specs.Lives.{component_in, program_in, BeginsAs, StartAs}
use Rattle.abc_system.specs.declared.member.Member.{Member}
use Rattle.abc_system.specs.Members.{now_in, live_of, program_of, RunUnder}

-- members are seen through what lives in them
now_seen : (ms : List Member) → map now_in ms ≡ map component_in (map live_of ms)
now_seen [] = refl
now_seen (m ∷ ms) = λ i. now_in m ∷ now_seen ms i

under_all : (ds : List Definition) (ms : List Member) → All (λ l. program_in l ≡ ds) (map live_of ms) → RunUnder ds ms
under_all ds [] all = All-nil (λ (m : Member). program_of m ≡ ds)
under_all ds (m ∷ ms) all =
    let P : Live → Type 0 = λ l. program_in l ≡ ds in
    All-cons (λ (x : Member). program_of x ≡ ds) m ms (All-head P m.live (map live_of ms) all)
    (under_all ds ms (All-tail P m.live (map live_of ms) all))

-- what lives in members runs under the program's definitions, and so do they
pub begin_under : (ds : List Definition) (ms : List Member) (ls : List Live) → map live_of ms ≡ ls →
    All (λ l. program_in l ≡ ds) ls → RunUnder ds ms
begin_under ds ms ls is all = under_all ds ms (subst (All (λ l. program_in l ≡ ds)) (sym is) all)

begun_alike : (ls : List Live) (cs : List Component) → length ls ≡ length cs →
    ((i : ℕ) (l : Live) (C : Component) → slice_get ls i ≡ Some l → slice_get cs i ≡ Some C → BeginsAs (component_of C) (component_in l)) →
    AreAlike (map component_in ls) (map component_of cs)
begun_alike [] [] n begun = tt
begun_alike [] (C ∷ cs) n begun = absurd (omega arith)
begun_alike (l ∷ ls) [] n begun = absurd (omega arith)
begun_alike (l ∷ ls) (C ∷ cs) n begun =
    let first = begun 0 l C refl refl in
    let more : length ls ≡ length cs = omega arith in (
      record { env = first.env; interface = first.interface; process = first.process },
      begun_alike ls cs more (λ i m D e f. begun (suc i) m D e f),
    )

-- so do members
pub begin_alike : (p : Program) (ms : List Member) (ls : List Live) → map live_of ms ≡ ls → length ls ≡ length p.components →
    StartAs p ls → AreAlike (map now_in ms) (system_of p)
begin_alike p ms ls is n begun =
    subst (λ (S : term.System). AreAlike S (system_of p)) (sym (now_seen ms ∙ ap (map component_in) is))
    (begun_alike ls p.components n (λ i l C e f. (begun i l e).0 C f))

-- there are few
pub begin_few : (p : Program) (ms : List Member) (ls : List Live) → map live_of ms ≡ ls → length ls ≡ length p.components →
    IsChecked p → length ms < 2 ^ 32
begin_few p ms ls is n checked =
    let many : length ms ≡ length p.components = sym (length-map ms live_of) ∙ ap length is ∙ n in
    let most = checked TooManyComponents Whole in
    omega (arith, most)
