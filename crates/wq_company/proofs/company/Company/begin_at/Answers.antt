use Rattle.std.proofs.Common.{◌≡◌, ℕ, false, arith, sym, subst}
use Rattle.std.specs.Prelude.{IfSome, OnOk, slice_get}
use Rattle.task_book.specs.declared.task.Stage.TheVariants as stages
use Rattle.wq_company.specs.Companies.{RunBefore, AreReady, AreRun, AreServed, AreSure, CompanyState, StaySure, gone_of}
use Rattle.wq_company.proofs.Beginning.{begun_but, begun_known, begun_some}
use Rattle.wq_seats.proofs.Going.{begun_work, work_then}
use Rattle.wq_company.proofs.Serving.{own_begun, served_begun_by}
use Rattle.wq_company.proofs.company.Company.begin_at.Goals as goal

pub returns-clause-work : goal.returns-clause-work
returns-clause-work g c =
    work_then c.args.book.now c.begin.new.self c.begin_in.new.book (begun_work c.args.book.now c.begin.new.self c.args.at (stages.Runs c.in-Some.attempt) c.begin.ensures.held) c.begin_in.ensures.goes.work

pub returns-clause-served : goal.returns-clause-served
returns-clause-served g c tells before all =
    let i = c.self.inside in
    let files = c.args.files.now in
    let old = c.args.book.now in
    let attempt = c.in-Some.attempt in
    let is : attempt.0 ≡ i.next = c.in-Some.ensures in
    let p = slice_get old.held c.args.at in
    let first = subst (λ (s : CompanyState g.row.L.Denot). RunBefore s.next old.held) (sym c.self.view_is) before in
    let earlier = subst (λ (n : ℕ). RunBefore n old.held) (sym is) first in
    let inside = subst (λ (s : CompanyState g.row.L.Denot). AreServed g.F.Commands.gives g.F.Commands.may_fail g.L.Link.history files old.held s.next s.seats) (sym c.self.view_is) all in
    let was = subst (λ (n : ℕ). AreServed g.F.Commands.gives g.F.Commands.may_fail g.L.Link.history files old.held n i.seats.items) (sym is) inside in
    let begun = served_begun_by g.F.Commands.gives g.F.Commands.may_fail g.L.Link.history files old c.begin.new.self c.args.at attempt p i.seats.items c.begin.ensures.held c.begin.ensures.runs was in
    let own = own_begun old c.begin.new.self c.args.at attempt p earlier c.begin.ensures.held c.begin.ensures.runs in
    let done = c.begin_in.ensures.served tells own begun in
    subst (λ (n : ℕ). AreServed g.F.Commands.gives g.F.Commands.may_fail g.L.Link.history files c.begin_in.new.book.held n c.begin_in.new.seats.items) (omega (arith, is)) done

pub returns-clause-run : goal.returns-clause-run
returns-clause-run g c before are =
    c.begin_in.ensures.run (begun_but c.args.book.now c.begin.new.self c.args.at c.in-Some.attempt c.self.inside.seats.items c.begin.ensures.held
    (subst (λ (s : CompanyState g.row.L.Denot). AreRun c.args.book.now.held s.seats) (sym c.self.view_is) are))

pub returns-clause-calm : goal.returns-clause-calm
returns-clause-calm g c least before known served sure =
    let i = c.self.inside in
    let files = c.args.files.now in
    let old = c.args.book.now in
    let attempt = c.in-Some.attempt in
    let is : attempt.0 ≡ i.next = c.in-Some.ensures in
    let p = slice_get old.held c.args.at in
    let inside = λ (tells : g.L.Link.tells). subst (λ (s : CompanyState g.row.L.Denot). AreServed g.F.Commands.gives g.F.Commands.may_fail g.L.Link.history files old.held s.next s.seats) (sym c.self.view_is) (served tells) in
    let was = λ (tells : g.L.Link.tells). subst (λ (n : ℕ). AreServed g.F.Commands.gives g.F.Commands.may_fail g.L.Link.history files old.held n i.seats.items) (sym is) (inside tells) in
    let surely = subst (λ (s : CompanyState g.row.L.Denot). AreSure g.L.Link.sure g.L.Link.offers least s.seats) (sym c.self.view_is) sure in
    subst (λ (s : CompanyState g.row.L.Denot). OnOk c.begin_in.result (StaySure g.L.Link.sure g.L.Link.offers least s.seats c.begin_in.new.seats.items)) c.self.view_is
    (c.begin_in.ensures.calm least (begun_known files old c.begin.new.self c.args.at attempt c.begin.ensures.held known)
    (λ tells. served_begun_by g.F.Commands.gives g.F.Commands.may_fail g.L.Link.history files old c.begin.new.self c.args.at attempt p i.seats.items c.begin.ensures.held c.begin.ensures.runs (was tells)) surely)

pub returns-clause-busy : goal.returns-clause-busy
returns-clause-busy g c least =
    let old = c.args.book.now in
    subst (λ (s : CompanyState g.row.L.Denot). IfSome (slice_get old.held c.args.at) (λ h. IfSome (slice_get s.seats c.args.place) (λ x. x.gone ≡ false → gone_of c.begin_in.new.seats.items ≡ gone_of s.seats → AreReady least c.begin_in.new.seats.items → OnOk c.begin_in.result ⊥))) c.self.view_is
    (begun_some old c.begin.new.self c.args.at c.in-Some.attempt
    (IfSome (slice_get c.self.inside.seats.items c.args.place) (λ x. x.gone ≡ false → gone_of c.begin_in.new.seats.items ≡ gone_of c.self.inside.seats.items → AreReady least c.begin_in.new.seats.items → OnOk c.begin_in.result ⊥))
    c.begin.ensures.held (c.begin_in.ensures.busy least))
