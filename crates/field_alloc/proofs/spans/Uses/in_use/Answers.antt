use Rattle.std.proofs.Common.{◌≡◌, ◌<◌, Option, ⊎_elim, inl, inr, subst, sym, ◌∙◌, arith}
use Rattle.field_alloc.specs.declared.spans.Span.{Span}
use Rattle.field_alloc.specs.Lasting.{LastsBy}
use Rattle.field_alloc.specs.Made.{BeginsAt}
use Rattle.field_alloc.specs.Sweep.{Holds}
use Rattle.field_alloc.proofs.spans.Uses.in_use.Goals as goal

pub returns-then-wide-span-clause-held : goal.returns-then-wide-span-clause-held
returns-then-wide-span-clause-held c at whole lasts =
    let loops = c.args.self.now.loops.now in
    let wide = c.lasting-wide.result in
    let own = subst (λ (o : Option Span). LastsBy loops o at) c.in_ok-span.was lasts in
    let holds = own wide c.lasting-wide.ensures.first c.lasting-wide.ensures.last c.lasting-wide.ensures.closed in
    ⊎_elim
    (λ (h : Holds c.behind_first.result at). inl h)
    (λ (b : (at ≡ wide.first) × (at < wide.last)). inr (
      sym c.if-flag_at-2.ensures,
      subst (λ (o : Option Span). BeginsAt loops o at) (sym c.in_ok-span.was) (sym c.if-wide-span.true ∙ sym b.0, (wide, sym b.0, omega (arith, b.0, b.1), c.lasting-wide.ensures.last, c.lasting-wide.ensures.closed)),
    ))
    (c.behind_first.ensures.rest at holds)
