use Rattle.std.proofs.Common.{Some, refl, ap, ◌∙◌}
use Rattle.std.proofs.lemmas.Result.{IfOk-weaker}
use Rattle.notice_macros.specs.declared.values.Values.{Values}
use Rattle.exchange_messages.specs.Sales.{texts_at}
use Rattle.exchange_messages.proofs.Sold.{body_is}
use Rattle.exchange_messages.proofs.sales.body_sold.Goals as goal

pub returns : goal.returns
returns c =
    let a = c.args.ask.now in
    let o = c.args.offer.now in
    let k = texts_at a.kept c.args.place in
    let texts = c.texts_in-texts.ensures in
    let v : Values = record {
      auction = c.as_str.result;
      bidid = c.texts_in-texts.result.bidid;
      imp = c.args.imp;
      seat = c.texts_in-texts.result.seat;
      adid = c.texts_in-texts.result.adid;
      price = Some o.charge;
      loss = 0;
    } in
    IfOk-weaker _ _ _
    (λ j h. body_is a o k v _ j (texts.body ∙ ap (λ ks. (texts_at ks c.args.place).body) c.as_slice.ensures)
    (record {
      auction = c.as_str.ensures.value;
      bidid = texts.bidid ∙ ap (λ ks. (texts_at ks c.args.place).bidid) c.as_slice.ensures;
      imp = c.requires;
      seat = texts.seat ∙ ap (λ ks. (texts_at ks c.args.place).seat) c.as_slice.ensures;
      adid = texts.adid ∙ ap (λ ks. (texts_at ks c.args.place).adid) c.as_slice.ensures;
      price = refl;
      loss = refl;
    })
    h)
    c.body_with.ensures
