-- What the definitions of maps, values, truth and closing come to. Each law is the contract of a function of laws.rt.
use Rattle.std.specs.Prelude.{◌≡◌, ◌≢◌, List, if◌then◌else◌}
use Rattle.abc_value.specs.declared.value.Value.{Value}
use Rattle.abc_value.specs.declared.value.Value.TheVariants.{Nothing}
use Rattle.abc_pred.specs.declared.names.Name.{Name}
use Rattle.abc_pred.specs.Terms.{Expr, Pred}
use Rattle.abc_pred.specs.Maps.{Entries, IsMap, look_up, set_to, shown, lists, ShowsTheSame, IsNameSet, ListsTheSame}
use Rattle.abc_pred.specs.Meaning.{expr_in, sat, close, IsClosed, IsOwn}

-- ---- maps
-- a map is its values: two that show the same are the same
abbrev pub MapsAreWhatTheyShow : Type 0
MapsAreWhatTheyShow = (a b : Entries) → IsMap a → IsMap b → ShowsTheSame a b → a ≡ b

-- after a name is set it has that value, which for none says that the map lacks it
abbrev pub SettingSets : Type 0
SettingSets = (es : Entries) (n : Name) (v : Value) → IsMap es → look_up (set_to v n es) n ≡ v

-- every other name has what it had
abbrev pub SettingKeepsTheOthers : Type 0
SettingKeepsTheOthers = (es : Entries) (n m : Name) (v : Value) → IsMap es → m ≢ n → look_up (set_to v n es) m ≡ look_up es m

-- and what comes of it is a map
abbrev pub SettingGivesAMap : Type 0
SettingGivesAMap = (es : Entries) (n : Name) (v : Value) → IsMap es → IsMap (set_to v n es)

-- a cut map has what the map has at each name of the interface, and none at all others
abbrev pub ShownIsTheCut : Type 0
ShownIsTheCut = (es : Entries) (i : List Name) (n : Name) → look_up (shown es i) n ≡ (if lists i n then look_up es n else Nothing)

abbrev pub ShownIsAMap : Type 0
ShownIsAMap = (es : Entries) (i : List Name) → IsMap es → IsMap (shown es i)

-- an interface is its names: two with the same names are the same
abbrev pub InterfacesAreTheirNames : Type 0
InterfacesAreTheirNames = (i j : List Name) → IsNameSet i → IsNameSet j → ListsTheSame i j → i ≡ j

-- only the names matter for the cut, not their order or number
abbrev pub ShownByNamesAlone : Type 0
ShownByNamesAlone = (es : Entries) (i j : List Name) → ListsTheSame i j → shown es i ≡ shown es j

-- ---- truth
-- truth under an interface is truth of the cut map: where each attribute is read in env if the interface has its name, and is none if it hasn't, the same predicates hold as of the cut map
abbrev pub TruthIsOfTheCutMap : Type 0
TruthIsOfTheCutMap =
    (p : Pred) (own env other vars : Entries) (i : List Name) →
    ((a : Name) → look_up other a ≡ (if lists i a then look_up env a else Nothing)) → sat p own other vars ≡ sat p own (shown env i) vars

-- the value of an expression without attributes of the other depends on the own environment and the bindings alone
abbrev pub OwnDependsOnOwnAlone : Type 0
OwnDependsOnOwnAlone = (e : Expr) → IsOwn e → (own other other' vars : Entries) → expr_in e own other vars ≡ expr_in e own other' vars

-- ---- closing
-- a closed predicate says of the other, wherever it is asked, what the open one said in its owner's place
abbrev pub ClosingKeepsTruth : Type 0
ClosingKeepsTruth = (p : Pred) (own other vars any others : Entries) → sat (close p own vars) any other others ≡ sat p own other vars

-- closing gives a closed predicate
abbrev pub ClosingCloses : Type 0
ClosingCloses = (p : Pred) (own vars : Entries) → IsClosed (close p own vars)

-- and changes nothing of one that is closed
abbrev pub ClosingStopsAtClosed : Type 0
ClosingStopsAtClosed = (p : Pred) → IsClosed p → (own vars : Entries) → close p own vars ≡ p

-- the truth of a closed predicate depends on the other, its receiver, alone
abbrev pub ClosedDependsOnReceiverAlone : Type 0
ClosedDependsOnReceiverAlone = (p : Pred) → IsClosed p → (own own' other vars vars' : Entries) → sat p own other vars ≡ sat p own' other vars'
