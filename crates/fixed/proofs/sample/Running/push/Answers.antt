-- `fixed::sample::Running::push` meets its contract: once the sample has joined, the test that decides whether a symbol is made is the one on the state.
use Rattle.std.proofs.Common.{◌≡◌, Bool, true, false, [], ◌∷◌, sym, ap, ◌∙◌, subst, arith, w64, rules}
use Rattle.arith.proofs.Bits.{held}
use Rattle.params.specs.Judge.{Sheet}
use Rattle.symbol.specs.declared.Symbol.{Symbol}
use Rattle.state.specs.declared.Pair.{Pair}
use Rattle.state.specs.declared.Frontend.{Frontend}
use Rattle.fixed.specs.Sample.{joined, with_symbol, without_symbol, symbol_of, falls, next, made_by}
use Rattle.fixed.specs.Inside.{Ready}
use Rattle.fixed.proofs.Ready.{accepted, ready-going, ready-joined, falls-joined, next-with, next-without, made-with, made-without}
use Rattle.fixed.proofs.sample.Running.push.Goals as goal

-- ---- once the sample has joined

module _ (s : Sheet) (f : Frontend) {g : Frontend} (x : Pair) (is : g ≡ joined s f x) where
  after-falls : {b : Bool} → falls g ≡ b → falls f ≡ b
  after-falls e = sym (falls-joined s f x) ∙ ap falls (sym is) ∙ e

  after-ready : Ready s f → Ready s g
  after-ready ready = subst (Ready s) (sym is) (ready-joined ready x)

  with-state : {h : Frontend} → falls g ≡ true → h ≡ with_symbol s g → h ≡ next s f x
  with-state e h = h ∙ ap (with_symbol s) is ∙ next-with s f x (after-falls e)

  with-made : {y : Symbol} → falls g ≡ true → y ≡ symbol_of s g → y ∷ [] ≡ made_by s f x
  with-made e h = ap (λ (y : Symbol). y ∷ []) (h ∙ ap (symbol_of s) is) ∙ made-with s f x (after-falls e)

  without-state : {h : Frontend} → falls g ≡ false → h ≡ without_symbol g → h ≡ next s f x
  without-state e h = h ∙ ap without_symbol is ∙ next-without s f x (after-falls e)

  without-made : falls g ≡ false → [] ≡ made_by s f x
  without-made e = made-without s f x (after-falls e)

pub join-requires : goal.join-requires
join-requires c = ((ready-going c.requires).head, (accepted c.requires).lengths.good.most)

pub make_symbol-requires-clause-ready : goal.make_symbol-requires-clause-ready
make_symbol-requires-clause-ready c = after-ready _ _ _ c.join.ensures c.requires

pub returns-then-self-lt16777216-clause-state : goal.returns-then-self-lt16777216-clause-state
returns-then-self-lt16777216-clause-state c =
    let falling = rw (held w64 c.join.new.self.registers.t_acc (search rules)) at c.if-self-lt16777216.true in
    with-state _ _ _ c.join.ensures falling c.make_symbol.ensures.state

pub returns-then-self-lt16777216-clause-symbol : goal.returns-then-self-lt16777216-clause-symbol
returns-then-self-lt16777216-clause-symbol c =
    let falling = rw (held w64 c.join.new.self.registers.t_acc (search rules)) at c.if-self-lt16777216.true in
    with-made _ _ _ c.join.ensures falling c.make_symbol.ensures.symbol

pub go_on-requires : goal.go_on-requires
go_on-requires c =
    let after = after-ready _ _ _ c.join.ensures c.requires in
    (omega (arith, (ready-going after).soon), after.room)

pub returns-clause-state : goal.returns-clause-state
returns-clause-state c =
    let late = rw (held w64 c.join.new.self.registers.t_acc (search rules)) at c.if-self-lt16777216.false in
    without-state _ _ _ c.join.ensures late (c.go_on.ensures c.args.sheet.now.params c.join.new.rings)

pub returns-clause-symbol : goal.returns-clause-symbol
returns-clause-symbol c =
    let late = rw (held w64 c.join.new.self.registers.t_acc (search rules)) at c.if-self-lt16777216.false in
    without-made _ _ _ c.join.ensures late
