-- Plots, sent as images.
use Rattle.std.specs.Prelude.{◌≡◌, [], ◌∷◌, Some, codes}
use Rattle.session_model.specs.Transcript.{done}
use Rattle.worked_examples.specs.Files.{lines, file_replayed}

abbrev pub Histogram : Type 0
Histogram =
    file_replayed
    (lines (codes "input bins = 30;" ∷
    codes "value waits = c(43, 52, 79, 62, 85, 55, 88, 85, 51, 85);" ∷
    codes "reactive lo { min(waits()) }" ∷
    codes "reactive wide { (max(waits()) - lo()) %/% input$bins + 1 }" ∷
    codes "reactive counts { fold(seq(0, input$bins - 1), c(), acc, b, c(acc, fold(waits(), 0, n, x, if ((x - lo()) %/% wide() == b) n + 1 else n))) }" ∷
    codes "plot p cache (counts(), width(p), height(p)) { bars(width(p), height(p), \"Waiting\", counts()) }" ∷ []))
    (lines (codes "s recv {\"method\":\"init\",\"data\":{\"bins:shiny.number\":3,\".clientdata_output_p_width\":784,\".clientdata_output_p_height\":400,\".clientdata_output_p_hidden\":false,\".clientdata_pixelratio\":1,\".clientdata_url_protocol\":\"http:\",\".clientdata_url_hostname\":\"127.0.0.1\",\".clientdata_url_port\":\"4321\",\".clientdata_url_pathname\":\"/\",\".clientdata_url_search\":\"\",\".clientdata_url_hash_initial\":\"\"}}" ∷ []))
    ≡ Some (record {
      output = lines (codes "s send {\"config\":{\"sessionId\":\"s\",\"user\":null,\"workerId\":\"\"}}" ∷
          codes "s send {\"busy\":\"busy\"}" ∷
          codes "s send {\"progress\":{\"message\":{\"id\":\"p\"},\"type\":\"binding\"}}" ∷
          codes "s send {\"recalculating\":{\"name\":\"p\",\"status\":\"recalculating\"}}" ∷
          codes "s send {\"recalculating\":{\"name\":\"p\",\"status\":\"recalculated\"}}" ∷
          codes "s send {\"errors\":{},\"inputMessages\":[],\"values\":{\"p\":{\"src\":\"data:image/svg+xml;base64,PHN2ZyB4bWxucz0iaHR0cDovL3d3dy53My5vcmcvMjAwMC9zdmciIHdpZHRoPSI3ODQiIGhlaWdodD0iNDAwIj48dGV4dCB4PSIxMCIgeT0iMjAiPldhaXRpbmc8L3RleHQ+PHJlY3QgeD0iMTAiIHk9IjEwMiIgd2lkdGg9IjI1NCIgaGVpZ2h0PSIyODgiLz48cmVjdCB4PSIyNjQiIHk9IjMxOCIgd2lkdGg9IjI1NSIgaGVpZ2h0PSI3MiIvPjxyZWN0IHg9IjUxOSIgeT0iMzAiIHdpZHRoPSIyNTUiIGhlaWdodD0iMzYwIi8+PC9zdmc+\"}}}" ∷
          codes "s send {\"busy\":\"idle\"}" ∷
          codes "s over ended" ∷ []);
      end = done;
    })

abbrev pub PlotOfAText : Type 0
PlotOfAText =
    file_replayed
    (lines (codes "plot p { \"hi\" }" ∷ []))
    (lines (codes "s recv {\"method\":\"init\",\"data\":{\".clientdata_output_p_hidden\":false}}" ∷ []))
    ≡ Some (record {
      output = lines (codes "s send {\"config\":{\"sessionId\":\"s\",\"user\":null,\"workerId\":\"\"}}" ∷
          codes "s send {\"busy\":\"busy\"}" ∷
          codes "s send {\"progress\":{\"message\":{\"id\":\"p\"},\"type\":\"binding\"}}" ∷
          codes "s send {\"recalculating\":{\"name\":\"p\",\"status\":\"recalculating\"}}" ∷
          codes "s send {\"recalculating\":{\"name\":\"p\",\"status\":\"recalculated\"}}" ∷
          codes "s send {\"errors\":{},\"inputMessages\":[],\"values\":{\"p\":{\"src\":\"data:image/svg+xml;base64,aGk=\"}}}" ∷
          codes "s send {\"busy\":\"idle\"}" ∷
          codes "s over ended" ∷ []);
      end = done;
    })
